pub mod Making
pub mod Ended
pub mod Made
