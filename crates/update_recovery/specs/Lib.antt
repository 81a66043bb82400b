pub mod Live
pub mod Union
pub mod Disks
pub mod Steps
pub mod Gathering
pub mod Redoing
pub mod Resuming
pub mod States
