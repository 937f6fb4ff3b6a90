pub mod Adding
pub mod Growing
pub mod Earlier
pub mod Reading
pub mod Again
