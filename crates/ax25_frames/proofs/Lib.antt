pub mod ControlLemmas
pub mod Outcomes
pub mod FrameLemmas
