pub mod Framing
pub mod Storing
pub mod ReadBack
pub mod Again
