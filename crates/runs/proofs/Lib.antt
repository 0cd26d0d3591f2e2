pub mod Verdicts
pub mod Trails
pub mod Levels
pub mod Keeping
pub mod Sureness
pub mod Onces
pub mod Because
pub mod Whole
