pub mod Weights
pub mod Lowests
pub mod Forcing
pub mod Checking
