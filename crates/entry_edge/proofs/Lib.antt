pub mod BindingLaws
pub mod BoundLaws
pub mod Causes
pub mod Counting
pub mod NasRanges
pub mod RangeLaws
pub mod SeenLaws
pub mod StepLaws
