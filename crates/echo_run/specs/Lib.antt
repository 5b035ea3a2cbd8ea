pub mod Answer
pub mod Replay
pub mod Summary
pub mod Top
