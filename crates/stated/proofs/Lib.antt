pub mod Keeping
pub mod Narrowing
pub mod Checking
