pub mod Failures
pub mod Texts
pub mod Sources
pub mod Loading
