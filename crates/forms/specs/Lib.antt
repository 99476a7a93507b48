pub mod Shape
pub mod Carried
pub mod Reads
