pub mod Frames
pub mod Packet
pub mod Laws
pub mod Parts
