-- The turns of the comparisons. Assumes nothing.
pub mod Turns
