pub mod Counted
pub mod Gateway
