pub mod WindowLemmas
pub mod LevelLemmas
pub mod WaveLemmas
pub mod Examples
pub mod SignalLemmas
pub mod LoudnessLemmas
