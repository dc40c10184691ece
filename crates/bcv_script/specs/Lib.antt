pub mod Digits
pub mod Left
pub mod Lines
pub mod Numbers
pub mod Reading
