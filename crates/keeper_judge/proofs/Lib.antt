pub mod Numbers
pub mod Joining
pub mod Given
pub mod Arriving
pub mod Expiring
