-- The closure machine makes the calculus's runs.
pub mod Close
pub mod Plug
pub mod Reduce
pub mod Runs
pub mod Loop
