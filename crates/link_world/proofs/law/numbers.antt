pub mod AckChain
pub mod InfoChain
pub mod Deciding
