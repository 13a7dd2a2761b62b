pub mod StreamLemmas
pub mod ReadingLemmas
mod TextLemmas
pub mod HeldLemmas
pub mod WrittenLemmas
