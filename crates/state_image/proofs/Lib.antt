mod Answers
mod Loops
pub mod Lengths
mod Again
mod Only
mod Shifted
mod Owning
mod Rounds
mod StateAgain
mod StateOnly
mod StateLengths
mod Staying
mod Pieces
