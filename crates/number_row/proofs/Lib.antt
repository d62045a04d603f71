-- Laws of numbers brought to one denominator. Assumes nothing.
pub mod Widths
pub mod Bringing
