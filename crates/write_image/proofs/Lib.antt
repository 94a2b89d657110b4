-- The sections of a written image, one behind the other.
pub mod Assembled
