pub mod Places
pub mod Likeness
pub mod Uniqueness
pub mod StrongStarters
pub mod Marks
pub mod Writing
pub mod Claiming
