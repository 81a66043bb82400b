pub mod Plain
pub mod Outcome
pub mod Kept
pub mod Reached
