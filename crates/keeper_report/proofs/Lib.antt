pub mod Confirming
pub mod Letting
pub mod LeftOut
pub mod Asking
pub mod OfLists
