-- Decimal numbers in arguments.
pub mod Numerals
