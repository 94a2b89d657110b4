-- Inversion of the typing rules; type safety of the calculus (document 003, theorems 2.3 and 2.4); and the limits that every run keeps (document 01, "A run").
pub mod Inversion
pub mod Extend
pub mod Substitute
pub mod StoreFits
pub mod Safe
pub mod Composed
pub mod Reductions
pub mod Values
pub mod Safety
pub mod Runs
pub mod Example
pub mod Invariant
pub mod Within
