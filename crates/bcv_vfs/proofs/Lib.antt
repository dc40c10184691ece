pub mod Parts
pub mod Covering
pub mod Images
