pub mod FidText
pub mod Places
pub mod FidReading
pub mod Targets
pub mod StripeLaws
pub mod Homes
pub mod Fronts
pub mod HexText
