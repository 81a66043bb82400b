pub mod Requests
pub mod RequestValues
pub mod Replies
pub mod Formats
pub mod Reader
pub mod Reasons
pub mod Cuttings
