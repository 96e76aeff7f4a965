pub mod Places
pub mod Tokens
pub mod Causes
pub mod Loads
