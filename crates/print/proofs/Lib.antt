-- Laws of the printers. Assumes nothing.
pub mod Puts
pub mod Numerals
pub mod Pages
pub mod Pieces
pub mod Whole
