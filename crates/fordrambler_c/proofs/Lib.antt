-- The laws of the calls for C: no two outcomes meet a contract. Assumes nothing.
pub mod Outcomes
