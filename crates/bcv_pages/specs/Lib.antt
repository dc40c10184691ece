pub mod Draft
pub mod Found
pub mod Held
pub mod Index
pub mod Indexed
pub mod Minima
pub mod Placed
pub mod Touched
