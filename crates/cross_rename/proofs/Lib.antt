pub mod Onward
pub mod Opening
