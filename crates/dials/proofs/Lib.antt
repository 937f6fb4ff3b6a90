pub mod Value
pub mod Order
pub mod Panels
