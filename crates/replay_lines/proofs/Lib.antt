pub mod Playing
pub mod OneLine
pub mod Blocks
pub mod Frames
