pub mod Identity
pub mod Kinds
pub mod Reading
pub mod Written
