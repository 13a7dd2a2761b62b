pub mod Numbers
pub mod Window
pub mod Places
pub mod Again
pub mod Incoming
pub mod TrueNumbers
pub mod Outgoing
