pub mod NoAnswer
pub mod Records
pub mod Pairs
