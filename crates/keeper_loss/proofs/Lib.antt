pub mod Ends
pub mod Bounds
pub mod OneByOne
