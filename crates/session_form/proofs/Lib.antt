pub mod Octets
pub mod Exact
pub mod Spelled
pub mod Sessions
