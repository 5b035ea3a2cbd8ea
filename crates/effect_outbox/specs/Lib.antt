pub mod Outbox
pub mod Queue
pub mod Queues
