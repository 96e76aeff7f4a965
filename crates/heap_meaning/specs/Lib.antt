pub mod Numbers
pub mod Reads
pub mod Run
pub mod Shape
pub mod Paths
pub mod Deeds
