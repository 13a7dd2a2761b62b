pub mod Hearing
pub mod MergedItems
pub mod Progress
pub mod HeldReceiver
