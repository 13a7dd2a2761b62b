pub mod Runs
pub mod Choices
