pub mod Escapes
pub mod Pieces
pub mod Items
pub mod WebRequests
pub mod Held
pub mod HeldHost
