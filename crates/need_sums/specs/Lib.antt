-- The numbers of card 10 (document 02) as a walk over the terms of an image works them out.
pub mod Sums
pub mod Walks
pub mod Rows
