pub mod Power
pub mod Calls
