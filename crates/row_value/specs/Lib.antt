-- What a row is at chosen values, from the values of the rows that it refers to. Assumes nothing.
pub mod Operands
