pub mod Orders
pub mod Wants
pub mod Stages
pub mod Answers
