pub mod Bits
mod Follow
pub mod Good
mod Refuting
mod Counted
mod Selected
mod Used
mod Propagated
pub mod Faults
mod Faultless
mod FaultlessLines
pub mod Numbers
pub mod Programs
pub mod Conditions
mod Scopes
