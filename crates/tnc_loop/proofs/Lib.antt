pub mod Common
pub mod DrawingLemmas
pub mod RoughLemmas
pub mod HeardLemmas
pub mod SendingLemmas
pub mod LengthLemmas
pub mod SummaryLemmas
pub mod ToldLemmas
