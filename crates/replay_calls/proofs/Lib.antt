pub mod Fields
pub mod Numbers
pub mod Several
pub mod Accept
pub mod Bound
