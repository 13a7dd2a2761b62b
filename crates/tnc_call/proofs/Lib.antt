pub mod Common
pub mod FaultlessLemmas
pub mod HeardLemmas
pub mod TraceLemmas
pub mod TurnLemmas
pub mod WholeLemmas
