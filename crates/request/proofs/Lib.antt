pub mod Lines
pub mod Tidy
pub mod Lengths
pub mod Shown
