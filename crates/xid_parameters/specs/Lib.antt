pub mod XidField
pub mod Values
pub mod Told
pub mod Agreement
pub mod Written
pub mod Reading
