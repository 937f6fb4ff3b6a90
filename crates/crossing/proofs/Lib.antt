pub mod Differing
pub mod Levels
