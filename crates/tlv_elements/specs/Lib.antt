pub mod Element
pub mod Reading
pub mod Rules
pub mod Grammar
pub mod Piece
pub mod Digits
