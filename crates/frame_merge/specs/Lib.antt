pub mod Order
pub mod Merged
pub mod Held
