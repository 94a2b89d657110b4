-- The engine's call.
pub mod Called
