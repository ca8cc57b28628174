pub mod Literals
pub mod Reciprocals
pub mod Ranges
pub mod Turns
pub mod Fields
pub mod ExactSplit
