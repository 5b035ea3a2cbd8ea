pub mod Journals
pub mod Known
pub mod Repeats
pub mod Rows
pub mod Shards
mod Worked
