pub mod Sharing
pub mod Decisions
pub mod Every
pub mod Replies
