pub mod KindLaws
pub mod ValueLaws
pub mod ShapeLaws
pub mod MessageLaws
pub mod WrittenLaws
