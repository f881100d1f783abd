pub mod Kept
pub mod Within
pub mod Blocks
pub mod Feeds
