pub mod Gathering
pub mod Judging
