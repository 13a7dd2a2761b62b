pub mod Audio
pub mod Printing
pub mod Modem
pub mod Decoded
pub mod Settled
pub mod Written
pub mod Held
pub mod Making
