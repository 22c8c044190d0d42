pub mod Turning
pub mod First
pub mod Stopping
