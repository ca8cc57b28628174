pub mod Rows
pub mod Sums
pub mod Squashed
pub mod Factors
