pub mod Values
pub mod Agrees
pub mod Runs
pub mod Begins
pub mod Attempting
