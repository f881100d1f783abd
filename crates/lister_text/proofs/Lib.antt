pub mod Cases
pub mod Decimal
pub mod Hex
pub mod Laying
pub mod Holding
pub mod Unique
pub mod LineFeeds
