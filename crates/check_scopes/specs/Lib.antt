-- Where the children of a term stand (document 01, "Typing").
pub mod Scopes
