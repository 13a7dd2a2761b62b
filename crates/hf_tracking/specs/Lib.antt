pub mod Correlation
pub mod Tracks
pub mod Heard
pub mod Held
