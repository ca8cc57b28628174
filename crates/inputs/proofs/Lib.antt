pub mod Passed
pub mod Named
