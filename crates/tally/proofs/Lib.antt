pub mod Limits
pub mod Turns
pub mod Holding
pub mod Reached
pub mod Running
