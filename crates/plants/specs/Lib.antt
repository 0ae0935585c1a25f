pub mod ConnectionCap
pub mod GovernorShare
pub mod Choice
pub mod Flows
pub mod Amounts
pub mod Shares
