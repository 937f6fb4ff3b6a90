pub mod Back
pub mod Tallies
