pub mod Rounds
pub mod Cards
pub mod Inputs
