pub mod Common
pub mod FineLemmas
pub mod FilteredWaves
pub mod Windows
pub mod NearWide
