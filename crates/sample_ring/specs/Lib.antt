pub mod Cells
pub mod Record
pub mod Views
pub mod Rule
pub mod Steps
pub mod Ends
