pub mod Layouts
pub mod HashText
pub mod Parts
pub mod PartLaws
