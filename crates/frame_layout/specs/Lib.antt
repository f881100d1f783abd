pub mod Octets
pub mod Frames
pub mod Refusals
pub mod Trips
pub mod Types
