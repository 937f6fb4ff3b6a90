pub mod Differences
pub mod Answer
pub mod Laws
pub mod Steps
