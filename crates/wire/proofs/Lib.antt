pub mod Numbers
pub mod Placed
