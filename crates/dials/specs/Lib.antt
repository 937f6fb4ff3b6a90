pub mod Position
pub mod Panel
pub mod Laws
