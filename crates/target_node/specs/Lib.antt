pub mod Putting
pub mod Node
pub mod Opening
