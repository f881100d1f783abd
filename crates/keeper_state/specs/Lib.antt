pub mod State
pub mod Lent
pub mod Unopened
