-- How much of a buffer is counted.
pub mod Counted
