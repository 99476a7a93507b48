pub mod Replies
pub mod Taking
