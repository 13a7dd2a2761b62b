pub mod NumberLemmas
pub mod PowerLemmas
pub mod LaneLemmas
pub mod HoldLemmas
pub mod WindowLemmas
pub mod CarrierLemmas
pub mod ConstantLemmas
pub mod BilinearLemmas
pub mod NearSums
pub mod NearPairs
pub mod NearRuns
pub mod NearTones
mod Examples
