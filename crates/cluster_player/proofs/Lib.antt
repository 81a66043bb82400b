pub mod Kept
pub mod Growing
pub mod Whole
pub mod Lines
