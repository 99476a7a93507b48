pub mod Taking
pub mod Blocks
pub mod Pieces
