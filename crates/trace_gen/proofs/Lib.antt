pub mod Counting
pub mod Ranges
pub mod Steps
pub mod Within
mod Worked
