pub mod Pinned
pub mod Powers
