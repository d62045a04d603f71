-- The tests of values one by one, and what choosing answers. Assumes nothing.
pub mod Testing
pub mod Choosing
