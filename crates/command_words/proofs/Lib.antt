pub mod Accepted
pub mod Clap
pub mod Commands
pub mod Found
pub mod Own
pub mod Spelling
pub mod Words
