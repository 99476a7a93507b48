pub mod Held
pub mod Filler
