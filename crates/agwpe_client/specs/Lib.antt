pub mod CallMessages
pub mod CallSteps
pub mod CallRun
pub mod HeldCall
pub mod DoneCall
pub mod CallPrints
