-- What the contracts of the product say. Assumes nothing.
pub mod Multiplying
