pub mod Known
pub mod Standing
pub mod Freedom
pub mod Refused
