pub mod Answers
pub mod Case
pub mod Ends
pub mod Summary
