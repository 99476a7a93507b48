pub mod Cutting
pub mod Limits
