pub mod FileShown
pub mod Told
