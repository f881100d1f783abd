pub mod Reads
pub mod Failures
