pub mod Condition
pub mod Empty
