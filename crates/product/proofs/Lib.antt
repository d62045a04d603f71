-- The turns of a row and of a product. Assumes nothing.
pub mod Turns
