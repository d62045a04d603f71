-- A model's bytes: the literals that they make true, and the first clause of the slots that they make false. Assumes nothing.
pub mod Model
pub mod Clauses
