-- What the tests say of what they make.
pub mod Called
pub mod Tried
