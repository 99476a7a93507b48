pub mod Sound
pub mod Figure
