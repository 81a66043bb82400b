pub mod Suffixes
pub mod Following
pub mod Parents
pub mod Walking
pub mod Pointwise
pub mod Whole
