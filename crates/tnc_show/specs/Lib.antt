pub mod Shown
pub mod HeldShow
pub mod Making
