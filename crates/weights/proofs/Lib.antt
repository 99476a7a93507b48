pub mod Weights
pub mod Items
