pub mod Stability
