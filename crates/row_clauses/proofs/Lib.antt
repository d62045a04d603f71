-- The laws of a row's clauses. Assumes nothing.
pub mod Answers
