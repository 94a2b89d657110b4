-- Turns one after another, and the proofs of the functions.
pub mod Resumed
pub mod Repeated
pub mod Lent
pub mod Started
