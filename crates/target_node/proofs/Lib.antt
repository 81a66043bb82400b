pub mod Pouring
pub mod Holding
