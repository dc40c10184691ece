pub mod Etags
pub mod EtagLaws
pub mod Index
pub mod Planned
pub mod Told
pub mod Odd
