pub mod Saying
pub mod Elements
pub mod OneLine
pub mod Shown
