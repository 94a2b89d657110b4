-- The domains and the types of an image written anew.
pub mod Sections
