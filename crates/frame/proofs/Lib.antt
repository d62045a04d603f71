-- Laws of what is written over a list, and of gates and circuits written one after the other. Assumes nothing.
pub mod Frames
pub mod Slots
pub mod Writing
pub mod Loops
