pub mod Weights
pub mod Items
pub mod Laws
