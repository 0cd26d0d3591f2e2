pub mod Explaining
pub mod Marking
pub mod Places
pub mod Reaching
