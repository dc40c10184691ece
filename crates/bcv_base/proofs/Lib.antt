pub mod Filled
pub mod HexText
pub mod NumberedNames
pub mod ObjectNames
pub mod Pieces
pub mod Searched
pub mod Views
