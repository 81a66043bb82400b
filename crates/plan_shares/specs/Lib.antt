pub mod Sharing
pub mod Decisions
pub mod Replies
