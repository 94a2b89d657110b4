-- Laws of the parts of a turn, and the proofs of the functions.
pub mod Made
pub mod Ended
pub mod Quotas
pub mod OnePiece
