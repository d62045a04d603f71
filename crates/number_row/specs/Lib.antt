-- Rows that another refers to, and two of them brought to one denominator. Assumes nothing.
pub mod Over
pub mod Bringing
