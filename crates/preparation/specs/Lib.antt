pub mod Prepare
pub mod Filled
