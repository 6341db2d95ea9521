pub mod Reportable
pub mod Lines
pub mod Printing
