-- What an accepted image runs by.
pub mod Prepared
