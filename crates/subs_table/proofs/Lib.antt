pub mod DeviceLaws
pub mod IndexLaws
pub mod ItemLaws
pub mod ObjectLaws
pub mod OrderLaws
pub mod TextLaws
