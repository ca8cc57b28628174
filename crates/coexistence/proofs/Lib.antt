pub mod Judgement
mod Sequence
pub mod Meaning
pub mod Theorems
