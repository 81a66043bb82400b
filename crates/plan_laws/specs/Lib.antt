pub mod Truth
pub mod Readback
