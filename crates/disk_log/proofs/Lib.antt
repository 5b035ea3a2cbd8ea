pub mod Heads
pub mod Logs
mod Openings
mod Worked
