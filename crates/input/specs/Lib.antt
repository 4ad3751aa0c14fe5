pub mod Numerals
pub mod Lines
pub mod Read
pub mod Grammar
pub mod Groups
