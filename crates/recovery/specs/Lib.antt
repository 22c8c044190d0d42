pub mod Recovers
pub mod Rules
pub mod Weights
