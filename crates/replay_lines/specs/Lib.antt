pub mod Scripts
pub mod Kept
pub mod Held
