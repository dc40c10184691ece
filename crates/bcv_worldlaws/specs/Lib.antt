pub mod Places
pub mod WorldLaws
pub mod Strikes
pub mod QuietActs
