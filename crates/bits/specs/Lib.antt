-- What literals read as under a model. Assumes nothing.
pub mod Readings
