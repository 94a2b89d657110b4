-- Laws of the pass over the terms.
pub mod Children
pub mod TermPass
pub mod ScopeCapacity
pub mod Root
pub mod Faults
pub mod Loops
