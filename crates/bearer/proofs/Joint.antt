-- Both ends joined over the backhaul: demand 3.
pub mod Flight
pub mod Joined
pub mod Growth
pub mod Calls
pub mod Delivery
pub mod Cut
pub mod Reporting
pub mod Confirming
pub mod Waiting
pub mod Room
pub mod Copies
pub mod Arriving
pub mod Expiring
pub mod Asking
pub mod Demand3
