-- The turns of a choice. Assumes nothing.
pub mod Turns
