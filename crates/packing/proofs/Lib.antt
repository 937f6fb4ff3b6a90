pub mod Octets
pub mod Counted
pub mod Placing
pub mod Words
pub mod Answers
pub mod BothWays
