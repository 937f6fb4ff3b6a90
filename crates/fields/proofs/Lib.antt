pub mod Lengths
pub mod Pieces
