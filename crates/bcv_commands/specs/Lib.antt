pub mod Commands
pub mod DatabaseFiles
pub mod Filling
pub mod PairLines
pub mod Pairs
pub mod StatusCodes
pub mod Taking
