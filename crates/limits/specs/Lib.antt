pub mod Terms
pub mod Offer
pub mod Row
pub mod Limit
pub mod Bounds
pub mod Plant
pub mod Figure
pub mod Narrowing
