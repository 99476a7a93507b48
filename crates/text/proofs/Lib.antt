pub mod Fronts
pub mod Numbers
pub mod Runs
pub mod Parts
pub mod Sorts
pub mod Tails
