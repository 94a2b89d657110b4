-- What the functions that read records are proved equal to: counts of records, codes of kinds, descriptors of types, what stands at an offset, and what the tables of an image hold.
pub mod Counts
pub mod Codes
pub mod Descriptors
pub mod Heads
pub mod Tables
pub mod Leaves
