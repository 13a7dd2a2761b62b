pub mod Common
pub mod MakingLemmas
pub mod PieceLemmas
pub mod EndedLemmas
