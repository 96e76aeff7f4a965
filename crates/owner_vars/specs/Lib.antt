pub mod Unknowns
pub mod Tables
pub mod Answers
pub mod Fields
pub mod Sites
pub mod Rows
pub mod Laws
