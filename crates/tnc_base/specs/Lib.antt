pub mod Faults
pub mod Hash
pub mod InMemory
pub mod Streams
