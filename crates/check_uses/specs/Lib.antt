-- The marks of the terms (document 01, "Turned back at the gate", refusals 11 and 12).
pub mod Marks
