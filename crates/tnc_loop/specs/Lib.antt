pub mod Words
pub mod Rough
pub mod Drawn
pub mod Strays
pub mod Summary
pub mod Held
