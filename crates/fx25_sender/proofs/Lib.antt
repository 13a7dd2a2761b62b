pub mod Common
pub mod OctetLemmas
pub mod CheckOctets
pub mod TagLemmas
pub mod UnitLemmas
pub mod SignalLemmas
pub mod LoudnessLemmas
