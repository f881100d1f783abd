-- The master's machine: what it means, by packets.
pub mod Labels
pub mod Marks
pub mod Pdcps
pub mod Frees
pub mod Oldest
pub mod Sound
pub mod Takes
pub mod Turned
pub mod Applied
pub mod Sums
pub mod Sizes
pub mod Accepts
pub mod AcceptsAny
pub mod LedgerMeans
pub mod Unlabelled
pub mod GivenMarks
pub mod Given
