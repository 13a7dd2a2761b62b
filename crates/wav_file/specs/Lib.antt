pub mod Place
pub mod Chunks
pub mod Format
pub mod Samples
pub mod Reading
pub mod Head
pub mod Held
