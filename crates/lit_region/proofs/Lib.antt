pub mod Layouts
pub mod Compaction
pub mod Order
