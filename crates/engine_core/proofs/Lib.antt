-- The code of an accepted image, and its run.
pub mod Ran
pub mod Accepted
