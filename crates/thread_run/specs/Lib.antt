pub mod Answer
pub mod Shards
pub mod Top
