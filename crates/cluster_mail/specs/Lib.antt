pub mod Mail
pub mod Kept
pub mod Content
pub mod Answering
pub mod Asking
