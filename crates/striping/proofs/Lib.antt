pub mod Forgetting
pub mod Blocks
