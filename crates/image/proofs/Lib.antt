mod Holding
mod Rests
