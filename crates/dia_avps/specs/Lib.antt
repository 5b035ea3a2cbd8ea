pub mod Frame
pub mod Values
pub mod Groups
pub mod Finding
pub mod Header
