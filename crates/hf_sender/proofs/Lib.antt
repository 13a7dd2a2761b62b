pub mod Common
pub mod WaveLemmas
pub mod LoudnessLemmas
