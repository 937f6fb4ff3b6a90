pub mod Plans
pub mod Greedy
pub mod Steps
pub mod Answer
pub mod Laws
