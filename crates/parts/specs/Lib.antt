pub mod Shape
pub mod Carried
