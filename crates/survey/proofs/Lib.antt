pub mod Marking
pub mod Settling
pub mod Spreading
pub mod Listing
pub mod Reserved
