-- What is printed of a table. Assumes nothing.
pub mod Printing
pub mod Uncut
