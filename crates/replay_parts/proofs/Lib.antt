pub mod Putting
pub mod Joining
