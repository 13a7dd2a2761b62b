pub mod Taps
pub mod Filtered
pub mod Held
pub mod Line
