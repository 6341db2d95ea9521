pub mod Bytes
pub mod Step
pub mod Lexed
pub mod Laws
