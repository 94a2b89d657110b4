-- What the definitions say: arithmetic, the elements that pass a test, choices, outcomes, small runs, terms that a domain rule refuses, cells and labels that are not there.
pub mod Signed
pub mod Filtered
pub mod Choices
pub mod EveryOutcome
pub mod Examples
pub mod Refused
pub mod Absent
