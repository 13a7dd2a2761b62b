pub mod HeardInRun
pub mod ClearSamples
pub mod HearingLaw
