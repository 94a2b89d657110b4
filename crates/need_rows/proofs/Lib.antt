-- The proofs of the walk for pieces.
pub mod Pieces
pub mod Children
pub mod TwoBranches
