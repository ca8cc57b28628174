pub mod HandedOut
pub mod Theorems
