pub mod Ln
