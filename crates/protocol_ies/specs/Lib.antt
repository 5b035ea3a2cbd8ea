pub mod Criticalities
pub mod Lists
pub mod Tables
pub mod Slots
