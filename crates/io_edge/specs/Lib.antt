pub mod Held
pub mod Faults
pub mod Reading
pub mod Writing
pub mod Memory
pub mod MemFiles
pub mod MemSink
