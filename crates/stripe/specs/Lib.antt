pub mod Asked
pub mod Hex
pub mod Lost
pub mod Seen
