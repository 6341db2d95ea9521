pub mod AddedLemmas
pub mod AddedSoundLemmas
