pub mod Called
pub mod Ready
pub mod Trying
