pub mod Measuring
pub mod Chosen
pub mod Judging
pub mod Named
pub mod Reserved
