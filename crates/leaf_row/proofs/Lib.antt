-- The variables of unknowns, and rows that write nothing. Assumes nothing.
pub mod Fresh
