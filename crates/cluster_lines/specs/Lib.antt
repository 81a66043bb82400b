pub mod Plain
pub mod Transcripts
