-- What writing a program's output comes to. Assumes nothing.
pub mod Writes
