pub mod Seen
pub mod Rows
pub mod Digits
pub mod Walks
pub mod Reading
pub mod Lines
