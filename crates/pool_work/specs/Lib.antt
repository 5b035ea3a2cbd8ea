pub mod Keeps
pub mod Packets
pub mod Stores
