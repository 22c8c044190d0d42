mod Calls
mod Bytes
