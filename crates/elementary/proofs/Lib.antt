pub mod Ranges
pub mod Called
