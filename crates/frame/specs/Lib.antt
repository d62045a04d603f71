-- What the writers' contracts say: a list written over another, literals in slots, gates written into slots. Assumes nothing.
pub mod Frame
pub mod Literals
pub mod Coding
pub mod Inside
pub mod Held
pub mod Written
