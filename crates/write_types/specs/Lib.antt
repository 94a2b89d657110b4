-- A table of types by their numbers in the image.
pub mod Entries
