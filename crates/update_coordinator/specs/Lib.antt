pub mod Coordinating
pub mod Planned
pub mod Fitting
pub mod Rules
pub mod Marks
pub mod Resending
pub mod Laws
