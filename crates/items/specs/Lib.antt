pub mod Grammar
pub mod Carried
pub mod Reads
