pub mod Bytes
pub mod Forms
pub mod Blanks
pub mod Reading
pub mod Formed
pub mod Laws
pub mod Parts
