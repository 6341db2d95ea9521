pub mod Ways
pub mod Firsts
pub mod Scan
pub mod Table
pub mod Found
