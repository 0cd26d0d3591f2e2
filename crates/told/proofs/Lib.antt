pub mod Telling
pub mod Trails
