-- Laws of gathered leaves, of written cells and of the whole report, and the proofs of the functions.
pub mod Gathering
pub mod CellRecords
pub mod WholeReport
