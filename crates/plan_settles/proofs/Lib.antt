pub mod Counts
pub mod Hearing
pub mod Attempts
pub mod Settled
