pub mod Taking
pub mod Columns
pub mod Stores
