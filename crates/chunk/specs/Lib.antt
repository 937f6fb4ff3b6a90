pub mod Chunks
pub mod Counting
pub mod Steps
pub mod Laws
