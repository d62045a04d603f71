-- The values that rows take. Assumes nothing.
pub mod Taken
