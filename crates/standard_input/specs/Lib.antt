-- What reading a program's input comes to. Assumes nothing.
pub mod Reads
