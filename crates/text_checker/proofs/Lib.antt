pub mod Filled
pub mod LineBounds
pub mod Headers
pub mod Faults
