pub mod Split
pub mod Exact
pub mod Laws
