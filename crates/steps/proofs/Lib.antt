pub mod Literals
pub mod StepExact
pub mod Seen
pub mod Twelve
pub mod Inside
