-- The gates of an accepted sheet hold what the traces say. Assumes nothing.
pub mod Halves
pub mod Tracing
pub mod Places
pub mod Adding
pub mod Multiplying
pub mod Comparing
pub mod Choosing
pub mod Fitting
pub mod Row
pub mod Earlier
pub mod Table
