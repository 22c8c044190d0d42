mod Hexes
mod Marking
mod Seen
