pub mod Lists
pub mod Answers
pub mod Secondary
pub mod Master
pub mod Joint
pub mod Bench
