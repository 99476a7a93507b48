pub mod Section
pub mod Within
pub mod Figures
pub mod Slack
pub mod Sum
pub mod Walk
pub mod Tenths
pub mod Boards
