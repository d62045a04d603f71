-- What the contracts of the comparisons say. Assumes nothing.
pub mod Comparing
