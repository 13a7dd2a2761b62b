pub mod Traffic
pub mod Rows
pub mod StepActs
