-- Laws of text in a buffer, of decimal numbers and of the lines of records, and the proofs of the functions.
pub mod Puts
pub mod Decimal
pub mod Sizes
pub mod Walk
pub mod Said
