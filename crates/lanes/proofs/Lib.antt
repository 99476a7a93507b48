pub mod Flags
pub mod Fronts
