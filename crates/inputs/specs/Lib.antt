pub mod Inputs
pub mod Numbered
