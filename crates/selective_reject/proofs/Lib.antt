pub mod Copies
pub mod Distances
pub mod PlaceLemmas
pub mod IncomingRounds
pub mod OutgoingRounds
pub mod AgainLemmas
