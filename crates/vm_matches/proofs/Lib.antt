-- Laws of matches, and the proofs of the functions.
pub mod Fields
pub mod Looking
pub mod Binding
pub mod Matching
