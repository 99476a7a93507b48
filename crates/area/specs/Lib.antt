pub mod Area
pub mod Exact
pub mod Figures
pub mod Walk
