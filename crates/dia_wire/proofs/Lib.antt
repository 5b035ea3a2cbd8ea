pub mod KindLaws
pub mod CallLaws
pub mod ShapeLaws
pub mod MessageLaws
pub mod WrittenLaws
