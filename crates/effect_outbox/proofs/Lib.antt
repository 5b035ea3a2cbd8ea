pub mod Rests
mod Steps
