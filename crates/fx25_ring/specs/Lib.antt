pub mod HeardInBlocks
pub mod Held
pub mod Turns
