pub mod Damage
pub mod Reader
pub mod Example
