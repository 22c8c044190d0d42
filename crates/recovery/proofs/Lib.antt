pub mod Sums
pub mod Nonzero
pub mod Plain
