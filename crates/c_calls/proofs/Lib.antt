pub mod Answers
pub mod Statuses
