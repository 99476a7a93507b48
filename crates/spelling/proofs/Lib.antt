pub mod Reading
pub mod Own
pub mod Spelled
pub mod Lengths
pub mod Walk
pub mod Laws
