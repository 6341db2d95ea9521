pub mod Journals
pub mod Jobs
