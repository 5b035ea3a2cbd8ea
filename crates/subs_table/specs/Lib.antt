pub mod Index
pub mod Kinds
pub mod Order
pub mod Row
pub mod Table
