pub mod Reading
pub mod Gots
pub mod Apart
pub mod Items
pub mod Collect
pub mod CallFields
pub mod OwnTables
pub mod Sayings
pub mod LinkActs
pub mod Walk
pub mod CallLaw
mod CallExample
pub mod CallSeen
