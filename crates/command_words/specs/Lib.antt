pub mod Commands
pub mod Refusals
pub mod Numbers
pub mod Schedules
pub mod Jobs
pub mod Meaning
