-- What a whole call answers and leaves.
pub mod Runs
pub mod Calls
