pub mod Drawn
pub mod State
pub mod Streams
pub mod Text
