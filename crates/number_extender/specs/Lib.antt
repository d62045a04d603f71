-- The operands of a row that is extended, and what its gates hold of them. Assumes nothing.
pub mod Operands
pub mod Operations
