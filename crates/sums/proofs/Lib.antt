mod Turn
pub mod Squashed
pub mod Vanishing
