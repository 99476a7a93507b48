pub mod Deck
pub mod Exact
pub mod Laws
pub mod Walk
