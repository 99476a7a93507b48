pub mod Taking
pub mod Effects
pub mod Codes
pub mod Stores
pub mod Right
pub mod Answered
