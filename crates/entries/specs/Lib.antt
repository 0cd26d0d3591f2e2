pub mod Columns
pub mod Kinds
pub mod Entries
