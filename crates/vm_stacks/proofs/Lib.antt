-- Laws of stacks and keeps, and the proofs of the functions.
pub mod Stacked
pub mod Keeping
