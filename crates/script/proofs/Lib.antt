pub mod Hands
pub mod Likeness
pub mod Playing
