pub mod PivotLemmas
pub mod CarryLemmas
pub mod LineLemmas
pub mod GroupLemmas
pub mod CallLemmas
pub mod NameLemmas
pub mod NumberLemmas
