pub mod Spelling
pub mod SoSpelled
pub mod Walk
pub mod Laws
