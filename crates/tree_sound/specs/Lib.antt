pub mod Sound
pub mod Shapes
pub mod SoundLaws
