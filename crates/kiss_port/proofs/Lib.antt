pub mod PieceLemmas
pub mod EscapeLemmas
pub mod HeldLemmas
pub mod WebLemmas
