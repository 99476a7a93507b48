pub mod Writing
pub mod Shown
