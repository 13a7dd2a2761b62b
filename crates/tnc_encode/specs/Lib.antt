pub mod Sending
pub mod Frames
pub mod Encoded
pub mod HeldFrames
pub mod Writing
pub mod Windows
pub mod Making
