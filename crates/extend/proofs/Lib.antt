-- The laws of bits put into a model. Assumes nothing.
pub mod Words
pub mod Putting
pub mod Turns
pub mod Rows
