-- When a domain rule (document 01, "Typing") is needed for demand 3.
pub mod Need
