-- The bytes of log and report: laws and theorems, and the proofs of the functions that write them.
pub mod Lengths
pub mod Put
pub mod ReadRecords
pub mod Narrow
pub mod Examples
