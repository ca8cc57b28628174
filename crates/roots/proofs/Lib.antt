pub mod Literals
pub mod Ranges
pub mod Turns
