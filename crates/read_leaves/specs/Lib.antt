-- The leaves of plain types, from their descriptors (document 01, "The image").
pub mod Leaves
