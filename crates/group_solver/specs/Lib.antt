pub mod Rows
pub mod Lemmas
pub mod Marks
pub mod Values
pub mod Copies
