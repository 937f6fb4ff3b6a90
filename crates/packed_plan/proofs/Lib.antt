pub mod Leaving
pub mod Strides
