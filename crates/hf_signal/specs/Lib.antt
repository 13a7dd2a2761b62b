pub mod TrueEnds
pub mod Stray
pub mod Carried
pub mod NearSignal
pub mod MergedFrames
