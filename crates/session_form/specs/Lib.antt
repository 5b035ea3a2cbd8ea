pub mod Fields
pub mod Form
