pub mod Words
pub mod Violation
pub mod End
pub mod Report
