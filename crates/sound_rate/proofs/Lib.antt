pub mod Lengths
pub mod Nothing
