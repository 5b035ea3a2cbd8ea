pub mod Bound
pub mod Down
pub mod Kept
pub mod Sent
pub mod Trace
