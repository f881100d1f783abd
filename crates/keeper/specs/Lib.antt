pub mod View
pub mod Plain
pub mod Steps
pub mod Unopened
