pub mod Cases
pub mod Rules
pub mod Lines
pub mod Files
pub mod Hold
pub mod Held
