-- Laws of decimal numbers, and the proofs of the functions.
pub mod Digits
