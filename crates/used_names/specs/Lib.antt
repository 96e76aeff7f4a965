pub mod Gone
pub mod Marks
pub mod Picked
