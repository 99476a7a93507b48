pub mod Adding
pub mod Searching
pub mod Order
pub mod Standing
