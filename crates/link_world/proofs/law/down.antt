pub mod Called
pub mod Calls
pub mod IdleEvents
pub mod Ticks
pub mod CallingEvents
pub mod ReleasingEvents
pub mod Ends
