-- What is printed of a table's costs. Assumes nothing.
pub mod Costs
