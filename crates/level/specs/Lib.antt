pub mod Level
pub mod Promise
pub mod Stripes
pub mod Checks
pub mod Clearing
pub mod Layouts
pub mod Gaps
pub mod Examples
