pub mod Walks
pub mod Exact
pub mod Whole
pub mod Fields
pub mod Frames
pub mod Pieces
pub mod Digits
pub mod Writes
