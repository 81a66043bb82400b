pub mod Walks
pub mod Empties
pub mod Collected
pub mod Listings
pub mod Parting
pub mod Names
pub mod Hearing
