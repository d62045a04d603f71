-- The loop over the rows, and what is known where values are chosen. Assumes nothing.
pub mod Filling
pub mod Evaluating
