-- The rule of a term on its fields, the scope that it stands in, and what a rule comes to (document 01, "Typing").
pub mod Rules
pub mod Scopes
pub mod Judged
