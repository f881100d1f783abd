pub mod Records
pub mod Showing
pub mod Opened
