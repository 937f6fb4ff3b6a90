pub mod Numbers
pub mod Windows
pub mod Counts
pub mod Bytes
pub mod Judging
pub mod Laws
