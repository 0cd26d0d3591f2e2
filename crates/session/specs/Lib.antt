pub mod Logs
pub mod Positions
pub mod Sessions
pub mod Outcomes
