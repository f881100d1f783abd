pub mod Blocks
pub mod Feeds
pub mod Fronts
pub mod Unique
