-- Laws of the reductions that write, and the proofs of the functions.
pub mod Reduced
