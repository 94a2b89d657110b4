-- Laws of prints, and the proofs of the functions.
pub mod Printed
