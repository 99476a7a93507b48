pub mod Angles
pub mod Arms
pub mod Judgeable
pub mod Exact
pub mod Figures
pub mod Walk
