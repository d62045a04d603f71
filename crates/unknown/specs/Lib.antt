-- Which of a table's rows are unknowns. Assumes nothing.
pub mod Unknowns
