-- A call that writes the fixed form, from its verdict.
pub mod Acceptance
