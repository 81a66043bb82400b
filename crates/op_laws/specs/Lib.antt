pub mod Objects
pub mod Near
pub mod Laws
pub mod PartTies
