pub mod Inferences
pub mod Trims
pub mod Joins
pub mod Knowing
