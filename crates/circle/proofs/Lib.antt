pub mod Wrapped
pub mod Forms
pub mod Sides
