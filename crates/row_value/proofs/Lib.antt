-- What acceptance tells of a row's operands, and that the value at them is the paper's. Assumes nothing.
pub mod Accepting
