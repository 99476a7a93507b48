pub mod Depths
pub mod Sizes
pub mod Rounding
pub mod Figures
pub mod Tenths
