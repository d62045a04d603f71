-- Laws of the reader of the solver's text. Assumes nothing.
pub mod Passing
pub mod Variables
pub mod Claims
pub mod Answers
