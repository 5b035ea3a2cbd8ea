pub mod StreamLaws
pub mod CourseLaws
pub mod TextLaws
pub mod Worked
