pub mod Numbers
pub mod Room
pub mod Trails
pub mod Lines
pub mod Collecting
pub mod Refutations
