pub mod Asked
pub mod Call
