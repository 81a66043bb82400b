pub mod Again
pub mod Begun
pub mod Coming
pub mod Live
pub mod Logs
pub mod Walked
