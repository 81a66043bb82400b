pub mod Lines
pub mod Answering
pub mod Refusing
pub mod Requests
pub mod Records
pub mod Logs
pub mod Saying
