pub mod CallField
pub mod Messages
pub mod Held
pub mod Answer
