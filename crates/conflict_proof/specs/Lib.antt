pub mod Values
pub mod Text
pub mod Fault
pub mod Fronts
pub mod Names
