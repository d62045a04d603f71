-- What each gate holds, in order of making. Assumes nothing.
pub mod Traces
