pub mod Common
pub mod Lingering
pub mod History
pub mod Sound
pub mod RulesAreSound
pub mod Tails
pub mod ToldEnds
pub mod KeyLasts
pub mod Quiet
mod Examples
pub mod Failures
