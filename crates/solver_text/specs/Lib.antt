-- What the reader of the solver's text promises step by step. Assumes nothing.
pub mod Passing
