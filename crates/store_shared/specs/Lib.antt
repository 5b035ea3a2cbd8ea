pub mod Legal
pub mod PeerBases
pub mod PeerShards
pub mod SharedCalls
pub mod SharedOffers
pub mod Stays
pub mod StoreBases
pub mod StoreShards
