pub mod Requests
pub mod Played
pub mod Disks
pub mod Commanded
pub mod Taken
