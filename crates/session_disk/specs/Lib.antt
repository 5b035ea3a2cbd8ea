pub mod Causes
pub mod Fits
pub mod Replay
pub mod Stored
