pub mod Differences
pub mod Numbers
pub mod Places
pub mod Steps
pub mod Laws
