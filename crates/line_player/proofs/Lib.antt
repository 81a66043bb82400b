pub mod Lines
pub mod Stops
pub mod Steps
pub mod Mapped
pub mod Complete
