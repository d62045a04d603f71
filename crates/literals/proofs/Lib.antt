-- Laws of the literals of constants, and of a sign repeated. Assumes nothing.
pub mod Constants
pub mod Widening
