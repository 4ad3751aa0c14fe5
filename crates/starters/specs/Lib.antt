pub mod Pairs
pub mod Starters
pub mod Claims
