mod Calls
pub mod Packets
mod Seen
mod Wholes
