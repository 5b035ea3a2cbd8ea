pub mod Finals
pub mod Floor
pub mod Own
pub mod Settled
pub mod Told
pub mod View
pub mod World
