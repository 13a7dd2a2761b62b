pub mod ToldMore
pub mod Spelling
pub mod WrittenRead
pub mod Alike
pub mod ReadOnce
