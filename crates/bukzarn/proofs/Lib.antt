-- A call with its answer as one number, and the proofs of the functions.
pub mod Answered
