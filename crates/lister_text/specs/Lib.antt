pub mod Texts
pub mod Hexadecimal
pub mod Outputs
