-- Refusals 4 to 7 of one record, as tests on the bytes of its fields and on the counts.
pub mod Ranges
pub mod Numbers
pub mod Terms
