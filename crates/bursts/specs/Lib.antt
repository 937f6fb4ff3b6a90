pub mod Groups
pub mod Sums
pub mod Grouping
pub mod Figures
pub mod Steps
pub mod Spread
pub mod Laws
