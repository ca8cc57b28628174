pub mod Phase
pub mod Judge
pub mod Round
pub mod Proposer
pub mod Call
pub mod Accepted
