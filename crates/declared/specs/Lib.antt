-- What is asked of p. Assumes nothing.
pub mod Declared
