pub mod Readers
pub mod AddedOnRing
pub mod HeardByAll
pub mod Turns
pub mod HeldReceiver
pub mod AddedTurns
pub mod AllMerging
pub mod ReceiverTurns
