pub mod Block
pub mod Count
