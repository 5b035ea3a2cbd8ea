pub mod Disk
pub mod Fuse
pub mod FuseLaws
pub mod Gate
pub mod Moments
