pub mod Answered
pub mod Cached
pub mod May
pub mod Worked
