pub mod HeardOnShortWave
pub mod HeldHf
pub mod HfTurns
pub mod Listening
pub mod LiveReceivers
