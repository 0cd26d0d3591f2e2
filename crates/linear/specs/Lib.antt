pub mod Terms
pub mod Slacks
pub mod Linears
pub mod Lowests
pub mod Laws
pub mod Sums
