-- Laws of numbers in bytes, of writes and of the memory, and the proofs of the functions.
pub mod Bytes
pub mod Over
pub mod Memory
pub mod Records
