-- Card 13's theorems.
pub mod Budget
pub mod Typed
pub mod Related
pub mod Agree
pub mod Theorem
pub mod Reported
pub mod Example
