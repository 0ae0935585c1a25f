pub mod Refusal
pub mod State
