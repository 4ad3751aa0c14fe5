pub mod Pigeonhole
pub mod Products
