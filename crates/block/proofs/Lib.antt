pub mod Cells
pub mod Cases
pub mod Good
pub mod Reasons
pub mod Rle
pub mod RleLaws
pub mod Reserved
