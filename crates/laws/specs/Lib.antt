-- Tests that the definitions are made of.
pub mod Tests
