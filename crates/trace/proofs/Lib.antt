pub mod Sums
pub mod Events
pub mod Judging
