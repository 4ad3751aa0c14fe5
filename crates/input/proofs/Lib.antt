pub mod Bytewise
pub mod Cut
pub mod Parsed
