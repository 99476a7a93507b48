pub mod Show
pub mod Laws
