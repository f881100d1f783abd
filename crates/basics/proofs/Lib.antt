pub mod Apart
pub mod Choices
pub mod Lists
pub mod Parts
pub mod Laying
pub mod Refusals
