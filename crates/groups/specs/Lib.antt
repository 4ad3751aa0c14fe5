pub mod Numbers
pub mod Tables
pub mod Refusals
pub mod Cyclics
pub mod Products
pub mod Algebra
pub mod Lowest
