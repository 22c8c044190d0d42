pub mod Members
pub mod Marks
pub mod Law
pub mod Refusals
pub mod Lowest
pub mod Blocks
pub mod Parts
pub mod Agreement
