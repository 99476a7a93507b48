pub mod Alike
pub mod Decimals
pub mod Lines
pub mod Numbers
pub mod Printed
pub mod Refilled
pub mod Sending
pub mod Weighing
