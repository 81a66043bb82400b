pub mod Spelling
pub mod Machine
pub mod LineText
pub mod Refusals
pub mod Calm
pub mod Worked
pub mod Cutting
