pub mod CommandFacts
pub mod JobLemmas
pub mod NumberLemmas
pub mod Ranges
pub mod RestLemmas
