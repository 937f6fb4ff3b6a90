pub mod Vectors
pub mod ReadBack
pub mod Packing
pub mod Fours
pub mod Storing
pub mod ReadOut
pub mod Again
pub mod Fewest
