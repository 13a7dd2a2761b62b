pub mod Recording
pub mod Tiling
pub mod Turns
pub mod Wave
pub mod Held
