-- Types entered into the table, one by one.
pub mod Located
pub mod Entering
