pub mod Outcomes
pub mod PreparationFails
