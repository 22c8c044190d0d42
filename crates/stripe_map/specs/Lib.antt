pub mod Map
pub mod Sizes
