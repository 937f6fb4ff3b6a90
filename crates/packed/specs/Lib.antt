pub mod Words
pub mod Judging
pub mod Laws
