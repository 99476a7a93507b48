pub mod Codes
pub mod Show
pub mod Total
pub mod Items
pub mod Boards
pub mod Runs
pub mod Demands
