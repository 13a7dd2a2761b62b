pub mod Common
pub mod HeardLemmas
pub mod PlacingLemmas
pub mod LanesLemmas
pub mod OneReader
pub mod ReceiverLemmas
