pub mod Streams
pub mod Candidates
pub mod MergedItems
pub mod Stray
pub mod Held
pub mod HeldDecoder
pub mod SettledByAll
pub mod HeldSensitive
