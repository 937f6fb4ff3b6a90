pub mod Digits
pub mod Room
pub mod Joined
