pub mod Shares
pub mod Updates
pub mod Wrote
pub mod Seats
pub mod ShareLaws
pub mod Telling
pub mod Parts
pub mod PartLaws
