-- A test of the numbers below a bound, one after another.
pub mod Ranges
