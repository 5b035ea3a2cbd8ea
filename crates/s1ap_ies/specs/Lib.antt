pub mod Types
pub mod Values
pub mod Run
pub mod Lent
