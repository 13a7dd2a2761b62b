pub mod Common
pub mod HeardLemmas
pub mod GoingOn
pub mod TurnLemmas
pub mod EachHeardLemmas
