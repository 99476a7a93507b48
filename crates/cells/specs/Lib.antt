pub mod Depth
pub mod Sizes
pub mod Figures
