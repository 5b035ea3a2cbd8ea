pub mod Answer
pub mod Counts
pub mod Kept
pub mod Merge
pub mod Row
pub mod Streams
pub mod View
pub mod World
