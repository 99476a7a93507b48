pub mod Token
pub mod Front
