-- Laws of the lines of rows. Assumes nothing.
pub mod Lines
pub mod Numbers
