pub mod Charters
pub mod Closed
pub mod Known
pub mod Offers
pub mod Seats
mod Worked
