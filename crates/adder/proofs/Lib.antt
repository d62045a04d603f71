-- The adder's turns. Assumes nothing.
pub mod Turns
