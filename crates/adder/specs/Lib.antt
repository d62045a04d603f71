-- What the adder's contracts say. Assumes nothing.
pub mod Adding
