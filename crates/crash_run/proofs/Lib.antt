pub mod Courses
mod Made
mod Shares
mod Stores
