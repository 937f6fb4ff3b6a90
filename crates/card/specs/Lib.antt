pub mod Decimal
pub mod Card
pub mod Steps
pub mod Laws
