-- The laws of the walk over a sheet that is extended. Assumes nothing.
pub mod Referring
pub mod Standing
pub mod Walking
pub mod Extending
