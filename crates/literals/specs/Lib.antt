pub mod Literals
pub mod Readings
pub mod Refusals
pub mod Settings
