pub mod Survey
pub mod Packed
pub mod Laws
