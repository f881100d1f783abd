pub mod Walk
pub mod Unique
