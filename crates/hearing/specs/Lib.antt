pub mod Hearing
