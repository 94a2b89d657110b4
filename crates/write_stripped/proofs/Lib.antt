-- Sets of high domains; the copy, written; a call from its verdict.
pub mod HighSets
pub mod Copies
pub mod Acceptance
