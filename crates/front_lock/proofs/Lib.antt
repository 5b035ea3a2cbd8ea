pub mod Histories
pub mod Views
pub mod Steps
pub mod Seats
pub mod Turns
pub mod Items
pub mod Columns
