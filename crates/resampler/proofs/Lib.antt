pub mod Common
pub mod WindowLemmas
pub mod SumLemmas
pub mod FilterLemmas
pub mod StuffedLemmas
pub mod FeedLemmas
pub mod ConstantLemmas
pub mod LineLemmas
