pub mod Allowed
pub mod Seen
pub mod Witness
