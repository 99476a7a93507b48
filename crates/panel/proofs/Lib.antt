pub mod Carrying
pub mod Effects
pub mod Codes
pub mod Answers
pub mod Room
