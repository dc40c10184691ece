pub mod Head
pub mod Marks
pub mod Reading
