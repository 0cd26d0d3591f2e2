pub mod Terms
pub mod Testing
