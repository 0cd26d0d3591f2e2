pub mod Players
pub mod Plays
