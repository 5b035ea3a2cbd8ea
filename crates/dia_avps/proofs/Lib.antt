pub mod Frames
pub mod ImsiLaws
pub mod ValueLaws
