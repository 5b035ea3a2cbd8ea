pub mod Cache
pub mod Hands
pub mod Replica
pub mod Replies
pub mod Writes
