pub mod Moments
pub mod Fits
pub mod Near
pub mod Laws
