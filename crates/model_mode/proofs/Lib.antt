pub mod Asks
pub mod Complete
pub mod Flags
pub mod Places
pub mod Sessions
