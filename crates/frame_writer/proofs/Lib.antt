pub mod Copied
pub mod Joined
pub mod Lengths
pub mod Placed
pub mod Ranges
pub mod Unique
