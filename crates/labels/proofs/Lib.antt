pub mod Figures
pub mod Lengths
