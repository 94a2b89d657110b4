-- Laws of steps, and the proofs of the functions.
pub mod Judged
pub mod Called
pub mod OtherSteps
