pub mod ControlField
pub mod FrameOctets
pub mod FrameFault
pub mod FrameText
pub mod Verdict
