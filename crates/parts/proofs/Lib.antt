pub mod Records
pub mod Kept
pub mod Tidy
