pub mod Frames
pub mod Acts
pub mod Loss
pub mod TheRun
pub mod Heard
pub mod Quiet
pub mod AsLive
pub mod Worked
