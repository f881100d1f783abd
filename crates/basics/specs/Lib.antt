pub mod Basics
pub mod Laid
pub mod Refusals
