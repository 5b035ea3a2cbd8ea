pub mod Types
pub mod Choices
pub mod Made
