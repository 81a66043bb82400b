pub mod Indices
pub mod LayoutLaws
pub mod Spelled
