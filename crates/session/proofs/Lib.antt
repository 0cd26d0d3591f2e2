pub mod Cutting
pub mod Settling
pub mod Ties
pub mod Telling
