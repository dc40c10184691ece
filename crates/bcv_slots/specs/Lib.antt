pub mod Numbered
pub mod NumberLaws
pub mod Places
