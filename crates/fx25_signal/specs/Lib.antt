pub mod Units
pub mod Merging
pub mod Damage
pub mod NearSignal
