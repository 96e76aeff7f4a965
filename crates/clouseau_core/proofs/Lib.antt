pub mod Given
pub mod Reports
pub mod Verdicts
pub mod Loaded
pub mod Samples
pub mod Promised
pub mod Decided
