pub mod Below
pub mod Heads
pub mod Records
pub mod Passes
pub mod Checked
pub mod Handing
pub mod Example
