pub mod Common
pub mod TrackLemmas
pub mod TrackerLemmas
pub mod CorrelationLemmas
pub mod PhasorLemmas
pub mod TonesLemmas
pub mod PrefixLemmas
