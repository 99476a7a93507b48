pub mod Tens
pub mod Made
pub mod Bounds
pub mod Held
pub mod Floors
pub mod Nearness
