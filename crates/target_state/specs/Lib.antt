pub mod State
pub mod Image
pub mod Rules
pub mod Commit
pub mod Opening
pub mod Marking
pub mod Indexed
pub mod Holding
