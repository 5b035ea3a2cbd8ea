pub mod Answers
pub mod Digits
pub mod Fields
pub mod Formats
pub mod Printed
pub mod Taking
