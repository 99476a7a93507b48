pub mod Walks
pub mod Yields
pub mod Kept
pub mod Words
