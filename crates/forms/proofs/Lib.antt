pub mod Records
pub mod Kept
pub mod Forms
