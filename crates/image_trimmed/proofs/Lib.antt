-- Images with the same records by their known fields: the same layout, program and verdict but for places; a trimmed image is one of them.
pub mod Paired
pub mod Layouts
pub mod Programs
pub mod Verdicts
pub mod Trimmed
pub mod Theorem
pub mod Example
