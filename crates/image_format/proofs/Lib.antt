pub mod Image
pub mod Held
pub mod Writes
pub mod Steps
pub mod Prop
