-- The image: its limits, bytes, kinds, records and program (document 01, "The image", "Turned back at the gate" and "Two runs compared").
pub mod Limits
pub mod Refusals
pub mod Bytes
pub mod Kinds
pub mod Records
pub mod Types
pub mod LaidOut
pub mod Program
pub mod TermFields
pub mod Layout
