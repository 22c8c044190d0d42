pub mod Crc
pub mod Held
