pub mod CleanupDescent
pub mod CleanupPut
pub mod CleanupWork
pub mod Picks
pub mod Released
pub mod State
