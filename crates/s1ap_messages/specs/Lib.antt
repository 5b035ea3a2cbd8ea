pub mod Usual
pub mod Lent
