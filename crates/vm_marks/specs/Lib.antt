-- What the binding of matching advice promises, and parts of definitions.
pub mod Binds
pub mod NextAdvice
