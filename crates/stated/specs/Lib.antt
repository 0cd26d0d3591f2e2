pub mod Stated
pub mod Checks
pub mod Pendings
