pub mod Progress
pub mod InTwo
pub mod Theorems
