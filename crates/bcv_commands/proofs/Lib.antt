pub mod CommandRows
pub mod Fillings
pub mod Headers
pub mod Mapped
pub mod PageCuts
pub mod PairsTaken
