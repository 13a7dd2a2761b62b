pub mod NearWindows
pub mod NearWaves
pub mod CarriedFrames
pub mod EndLemmas
pub mod NearLemmas
pub mod Law
mod Examples
