pub mod Bits
pub mod Heard
pub mod HeldLane
pub mod Held
pub mod Taken
pub mod Ranks
pub mod Moments
pub mod WithoutBlocks
