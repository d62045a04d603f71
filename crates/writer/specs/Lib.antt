-- What the rows of a table write. Assumes nothing.
pub mod Rows
