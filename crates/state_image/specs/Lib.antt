pub mod FrontText
pub mod FrontReading
pub mod StateText
pub mod StateReading
