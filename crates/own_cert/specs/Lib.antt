pub mod Text
pub mod Values
pub mod Fault
pub mod LineForms
pub mod Runs
pub mod Drafts
pub mod Reading
pub mod Holders
