pub mod Calls
pub mod Closing
pub mod Gathered
pub mod Wholes
