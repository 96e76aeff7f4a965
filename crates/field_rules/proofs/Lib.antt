mod ClauseLemmas
pub mod Pointers
