pub mod Replies
pub mod Row
