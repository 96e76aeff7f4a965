pub mod Calls
pub mod Grouping
pub mod Found
pub mod Walks
pub mod Orders
pub mod Members
