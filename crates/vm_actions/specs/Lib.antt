-- The rarer steps.
pub mod OtherSteps
pub mod Assured
