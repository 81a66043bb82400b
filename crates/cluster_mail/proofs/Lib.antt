pub mod Marks
pub mod Whole
pub mod Sending
pub mod OneThing
