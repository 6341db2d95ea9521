pub mod Tables
mod Worked
