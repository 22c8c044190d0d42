pub mod Accepted
pub mod Limits
pub mod Rank
