pub mod Traces
pub mod Vectors
pub mod Bytes
pub mod Counting
pub mod Sweeping
pub mod Parts
pub mod Covering
