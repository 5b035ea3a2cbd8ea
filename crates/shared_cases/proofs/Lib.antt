mod Entries
pub mod Seats
