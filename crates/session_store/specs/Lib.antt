pub mod AloneLaw
pub mod Charter
pub mod Law
pub mod Rows
pub mod Seen
pub mod Shards
