pub mod Progress
mod Served
