-- The domain rules that demand 3 needs.
pub mod Programs
pub mod Rules
pub mod Refuted
