pub mod Slots
pub mod Passes
pub mod Sums
pub mod OneByOne
