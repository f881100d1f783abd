pub mod Steps
pub mod Playing
