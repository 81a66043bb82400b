pub mod Cluster
pub mod Delivery
pub mod Commands
pub mod Looks
pub mod Ends
pub mod Founding
pub mod Cored
