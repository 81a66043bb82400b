pub mod Grammar
pub mod Numbers
pub mod Fields
pub mod Steps
pub mod Feeding
pub mod Values
pub mod Format
