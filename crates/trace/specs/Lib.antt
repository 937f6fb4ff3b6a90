pub mod Sum
pub mod Trace
pub mod Events
pub mod Laws
