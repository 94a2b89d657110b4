-- What a run needs is no more than the tree says (document 02, card 10).
pub mod Examples
pub mod Sums
pub mod Admitted
pub mod Substituted
pub mod Shift
pub mod Kept
pub mod Takes
pub mod Reductions
pub mod Typed
pub mod Steps
pub mod Theorem
pub mod Uncounted
pub mod Small
