pub mod CallInput
pub mod CallTrace
pub mod CallEnding
pub mod Faultless
pub mod HeldTalk
