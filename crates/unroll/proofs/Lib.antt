pub mod Filling
pub mod ReadingOut
pub mod Whole
