pub mod Adding
pub mod Hex
pub mod Pages
pub mod Splits
pub mod Values
