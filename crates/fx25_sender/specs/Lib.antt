pub mod Units
pub mod Transmission
pub mod Signal
