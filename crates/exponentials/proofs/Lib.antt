pub mod Literals
pub mod ExpTurn
pub mod ExpWorked
pub mod ExpRange
pub mod Halves
