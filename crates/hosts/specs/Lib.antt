pub mod Rules
pub mod Standard
