pub mod Course
pub mod Made
pub mod Stores
pub mod Text
