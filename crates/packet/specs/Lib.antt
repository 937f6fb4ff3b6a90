pub mod Blocks
pub mod Answers
pub mod Steps
pub mod Laws
pub mod Reserved
