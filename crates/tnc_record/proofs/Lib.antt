pub mod Common
pub mod TextLemmas
pub mod TurnLemmas
pub mod LoopLemmas
pub mod RecordedLemmas
pub mod EndLemmas
pub mod GapLemmas
