pub mod MarkLemmas
pub mod NameLemmas
pub mod Valid
