pub mod Phase
pub mod Level
pub mod Modulation
pub mod Transmission
pub mod Signal
