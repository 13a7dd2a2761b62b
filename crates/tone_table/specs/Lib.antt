pub mod Sine
pub mod Tones
pub mod Wave
