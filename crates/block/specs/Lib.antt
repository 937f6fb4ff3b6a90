pub mod Types
pub mod Layouts
pub mod Reading
pub mod Reserved
pub mod Laws
pub mod Fields
