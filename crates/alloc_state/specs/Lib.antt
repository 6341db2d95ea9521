pub mod PlainValues
pub mod Outcomes
pub mod Asking
pub mod Counted
pub mod MadeValues
pub mod Repeats
pub mod Prepared
pub mod Log
