pub mod BlockFetch
pub mod CallLaw
pub mod FixedImage
pub mod Opened
pub mod Pins
pub mod TxnCalls
