pub mod Feeds
pub mod Known
pub mod Texts
