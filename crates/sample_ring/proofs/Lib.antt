pub mod Common
pub mod Laps
pub mod Growing
pub mod Standing
pub mod Stepping
pub mod Making
pub mod Closing
