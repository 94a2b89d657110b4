-- The validator: refusals 1 to 18 as one definition on bytes (document 01, "Typing" and "Turned back at the gate"); and, apart from it, what acceptance asks of an image.
pub mod Domains
pub mod Settings
pub mod WellTyped
pub mod Ascribed
pub mod Acceptable
pub mod Answers
pub mod Order
pub mod Shape
pub mod Rules
pub mod Check
pub mod Verdicts
