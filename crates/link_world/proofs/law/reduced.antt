pub mod Core
pub mod CoreMoves
pub mod CoreLaw
pub mod CoreOf
pub mod Examples
