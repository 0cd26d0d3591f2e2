pub mod Joining
pub mod Splitting
