mod Sweeps
pub mod InRoom
