pub mod Within
pub mod Printed
pub mod Sending
pub mod Laws
