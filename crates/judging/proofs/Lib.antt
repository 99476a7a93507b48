pub mod Columns
pub mod Shown
pub mod Judging
pub mod Codes
