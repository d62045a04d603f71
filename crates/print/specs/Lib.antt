-- What the printers' contracts say: a text put at a place, a text in pages, and the pieces of DIMACS text. Assumes nothing.
pub mod Put
pub mod Pages
pub mod Pieces
