-- Facts on lists of packets and on their numbers, which both ends use.
pub mod Mapped
pub mod Elements
pub mod Rows
pub mod Some
pub mod Numbers
pub mod Lengths
pub mod RunNumbers
