pub mod Checking
pub mod Programs
pub mod Sites
