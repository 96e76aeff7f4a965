pub mod Tables
pub mod Keys
pub mod Places
pub mod Grouped
pub mod Placed
pub mod Finding
pub mod Checking
pub mod Owned
