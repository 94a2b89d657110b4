-- A term written anew, field by field.
pub mod Writing
pub mod Begun
