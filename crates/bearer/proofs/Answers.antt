-- What calls answer, of either machine, in every state: what an accepted one has passed, that a refused one changes nothing, and how an answer
-- is shown to be the one that the table of refusals gives.
pub mod Accepted
pub mod Given
pub mod Refused
pub mod Reported
pub mod Anything
pub mod Kept
