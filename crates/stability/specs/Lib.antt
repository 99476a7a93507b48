pub mod Verdict
pub mod Figures
pub mod Demand
pub mod Margins
