pub mod Sections
pub mod Walks
pub mod Weights
pub mod Totals
pub mod Accuracy
pub mod Figures
pub mod Tenths
pub mod Boards
