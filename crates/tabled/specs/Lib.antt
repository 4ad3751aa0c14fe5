pub mod Seven
pub mod Sevens
pub mod Every
