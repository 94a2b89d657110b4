-- Proofs of the functions of this crate.
pub mod Described
pub mod Lowest
