pub mod Accepted
pub mod Filled
pub mod Placed
