pub mod Texts
pub mod Putting
pub mod Decoding
pub mod Bound
pub mod OneLine
pub mod Kept
pub mod Ahead
