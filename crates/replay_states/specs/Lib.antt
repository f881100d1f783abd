pub mod Lines
pub mod States
