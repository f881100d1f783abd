pub mod Hexadecimal
pub mod OneLine
