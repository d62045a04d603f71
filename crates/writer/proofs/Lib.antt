-- The walk over the rows of an accepted table. Assumes nothing.
pub mod Made
pub mod Walk
pub mod Walking
