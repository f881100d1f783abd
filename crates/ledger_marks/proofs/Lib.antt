pub mod Walks
pub mod Marks
