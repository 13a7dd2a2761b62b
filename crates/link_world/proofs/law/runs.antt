pub mod EndSteps
pub mod WorldSteps
pub mod Runs
pub mod Conclusion
pub mod WorldLaw
pub mod ActedOn
pub mod ValidNumbers
