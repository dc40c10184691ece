pub mod SeenBases
pub mod Naming
pub mod Rises
pub mod RisenSides
pub mod DownLaws
