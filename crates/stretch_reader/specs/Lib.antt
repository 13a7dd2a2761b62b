pub mod HeardInStretches
pub mod EachHeard
pub mod Turns
