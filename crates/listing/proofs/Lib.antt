-- The listing by its verdict, how long it may get, and the proofs of the functions.
pub mod Verdicts
pub mod Bounds
