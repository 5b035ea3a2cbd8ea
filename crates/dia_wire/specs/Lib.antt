pub mod Commands
pub mod Header
pub mod Tables
pub mod Shapes
pub mod Checks
pub mod Messages
pub mod Written
pub mod Calls
