pub mod BothPeers
