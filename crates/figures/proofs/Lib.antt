pub mod Whole
pub mod Writable
