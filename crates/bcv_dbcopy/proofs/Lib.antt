pub mod BlockTexts
pub mod MayPut
pub mod Owned
pub mod PagesLaws
pub mod Parts
pub mod Powers
pub mod Tasks
pub mod WorkLaws
