pub mod Digits
pub mod Exact
pub mod Identities
pub mod Lengths
pub mod Types
