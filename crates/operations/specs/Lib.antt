pub mod Operations
pub mod Codes
pub mod Answers
