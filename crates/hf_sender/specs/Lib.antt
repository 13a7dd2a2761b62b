pub mod Tones
pub mod Wave
pub mod Modulation
pub mod Transmission
