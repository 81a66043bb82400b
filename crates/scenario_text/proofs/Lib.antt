pub mod OneSpelling
pub mod Parsed
pub mod Members
pub mod Runs
pub mod MachineLaws
pub mod Worked
pub mod OneLine
mod Written
mod Restored
