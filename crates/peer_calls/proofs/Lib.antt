pub mod Lists
pub mod Offers
