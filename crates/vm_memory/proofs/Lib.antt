-- Laws of the tables in the work area, and the proofs of the functions.
pub mod Chosen
pub mod Stored
pub mod Found
pub mod Sizes
