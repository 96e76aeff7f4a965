pub mod FoundLemmas
pub mod CallLemmas
pub mod WalkLemmas
pub mod QueueLemmas
pub mod Unique
pub mod GroupLemmas
pub mod Each
