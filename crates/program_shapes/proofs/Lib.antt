pub mod Placing
pub mod Sums
pub mod Shaped
pub mod Members
