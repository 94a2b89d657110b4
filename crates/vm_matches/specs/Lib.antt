-- Parts of the definition of a match, and what its functions ask for.
pub mod Matching
pub mod Operands
