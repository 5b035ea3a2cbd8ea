pub mod Lengths
pub mod Numbers
pub mod Made
pub mod Only
