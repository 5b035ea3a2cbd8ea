pub mod Octets
pub mod Values
