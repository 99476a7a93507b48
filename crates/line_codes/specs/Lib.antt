pub mod Line
pub mod Codes
pub mod Alike
pub mod Parts
