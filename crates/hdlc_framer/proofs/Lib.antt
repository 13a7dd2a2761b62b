pub mod Common
pub mod StuffingLemmas
pub mod Lines
pub mod BitLemmas
pub mod CheckSequenceLemmas
pub mod FrameEnds
pub mod CarrierLemmas
pub mod PackedLemmas
pub mod DeframerLemmas
pub mod StuffLemmas
pub mod BusyLemmas
mod Examples
pub mod OctetLemmas
pub mod FrameTests
pub mod LateLemmas
