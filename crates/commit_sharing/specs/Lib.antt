pub mod Pending
pub mod Sharing
pub mod WriterLaws
