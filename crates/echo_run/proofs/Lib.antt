pub mod Callers
pub mod Floors
pub mod Lines
pub mod Schedule
