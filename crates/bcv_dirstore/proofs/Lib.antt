pub mod Files
pub mod FirstIds
pub mod Putting
pub mod Stored
