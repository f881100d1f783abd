pub mod Circle
pub mod Sides
pub mod Answers
pub mod Lengths
