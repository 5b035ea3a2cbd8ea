pub mod Frame
pub mod Picking
pub mod Values
