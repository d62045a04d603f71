-- Laws of the reader of lines. Assumes nothing.
pub mod Laws
pub mod Answers
