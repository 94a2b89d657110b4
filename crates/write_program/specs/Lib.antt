-- What it is to write a term anew.
pub mod Writing
