mod Runs
mod Indexed
pub mod Same
pub mod Order
mod Sorted
pub mod Distinct
pub mod RecordStamps
