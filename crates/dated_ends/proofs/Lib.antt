pub mod NodesLemmas
pub mod GuardLemmas
pub mod BelowLemmas
pub mod EndLemmas
pub mod EndSoundLemmas
pub mod WholeLemmas
