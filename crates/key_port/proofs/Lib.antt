pub mod LineLemmas
pub mod OpenLines
pub mod Bridge
pub mod EndOfRun
mod Examples
pub mod Steps
pub mod Tasks
pub mod Sides
pub mod Closing
