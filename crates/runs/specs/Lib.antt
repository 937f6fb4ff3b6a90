pub mod Writing
pub mod Answers
pub mod Packets
pub mod Laws
