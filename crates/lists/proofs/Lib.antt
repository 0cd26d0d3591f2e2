pub mod Distinct
pub mod Reading
pub mod Mapping
pub mod Sets
pub mod Members
