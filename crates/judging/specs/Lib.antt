pub mod Judge
pub mod Complete
pub mod Codes
