pub mod Asking
pub mod Counting
pub mod Listing
pub mod Planning
pub mod Placing
