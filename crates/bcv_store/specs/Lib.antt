pub mod Asked
pub mod Plans
pub mod Requests
pub mod StoreShown
pub mod Within
