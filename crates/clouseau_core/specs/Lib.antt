pub mod Texts
pub mod Judged
pub mod Answers
pub mod Report
pub mod Headline
