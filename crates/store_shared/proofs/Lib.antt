pub mod Histories
pub mod Offers
pub mod PeerTurns
pub mod StoreCalls
pub mod StoreTurns
pub mod Turns
mod Worked
