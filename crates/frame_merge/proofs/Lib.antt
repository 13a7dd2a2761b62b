pub mod Common
pub mod Ordering
pub mod Merging
pub mod Searching
pub mod Forgetting
pub mod Putting
pub mod Taking
pub mod Sorting
