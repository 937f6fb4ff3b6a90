pub mod Ahead
pub mod Windows
pub mod Greedy
pub mod Best
pub mod Filling
pub mod Answering
pub mod Repair
pub mod Same
