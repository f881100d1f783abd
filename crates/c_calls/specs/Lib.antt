pub mod Boundary
pub mod Looks
