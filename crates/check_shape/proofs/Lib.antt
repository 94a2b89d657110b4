-- Laws of the passes of refusals 9 to 12.
pub mod Orders
pub mod Named
pub mod Answers
pub mod TermRecords
pub mod MarkedTerms
pub mod DepthMarks
pub mod Zeros
