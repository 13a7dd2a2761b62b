pub mod LossLemmas
pub mod SoundLemmas
pub mod TileLemmas
pub mod ReadLemmas
pub mod WriteLemmas
