pub mod Numbers
pub mod View
pub mod Rule
pub mod Steps
pub mod Turns
pub mod Front
pub mod FrontRow
