pub mod Frames
pub mod ImsiLaws
