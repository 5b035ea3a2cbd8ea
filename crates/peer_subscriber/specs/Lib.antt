pub mod Server
