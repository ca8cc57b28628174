pub mod Letters
pub mod Text
pub mod Lines
