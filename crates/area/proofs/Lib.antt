pub mod Stretches
pub mod Plain
pub mod Areas
pub mod Shown
